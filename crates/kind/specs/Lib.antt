pub mod Kind
pub mod Areas
pub mod Place
