pub mod Wholes
pub mod Headers
pub mod Rights
pub mod Abreast
pub mod Runs
