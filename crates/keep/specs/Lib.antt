pub mod Whole
pub mod Keep
