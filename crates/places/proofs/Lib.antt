pub mod Found
pub mod Places
pub mod Runs
pub mod Sounds
