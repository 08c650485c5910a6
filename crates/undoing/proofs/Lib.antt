pub mod Breaks
pub mod Rounds
pub mod Calls
pub mod Promises
