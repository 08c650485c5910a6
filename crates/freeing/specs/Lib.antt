pub mod Freeing
pub mod Tally
