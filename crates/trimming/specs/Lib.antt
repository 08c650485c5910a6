pub mod Trimming
pub mod Rest
