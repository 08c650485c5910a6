pub mod Names
pub mod Taken
pub mod Said
pub mod Back
