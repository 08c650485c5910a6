pub mod Links
pub mod Chains
pub mod Enough
pub mod Rows
pub mod Walks
pub mod Bodies
