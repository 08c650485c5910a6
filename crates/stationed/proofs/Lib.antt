pub mod Steps
pub mod Wide
pub mod Promises
