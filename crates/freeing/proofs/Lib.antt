pub mod Freeings
pub mod Tallies
pub mod Clearings
