pub mod Ranges
pub mod Runs
pub mod Strides
pub mod Once
pub mod Refusals
