pub mod Lengths
pub mod Steps
pub mod Histories
pub mod Promises
