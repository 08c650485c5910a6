pub mod Wholes
pub mod Tallied
pub mod Rests
pub mod Behinds
pub mod Sweeps
pub mod Trims
