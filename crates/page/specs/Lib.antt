pub mod Header
pub mod Count
