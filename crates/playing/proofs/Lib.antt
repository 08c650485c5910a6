pub mod Playings
pub mod Lengths
