pub mod Rests
pub mod Steps
pub mod Portions
pub mod Promises
pub mod Goings
