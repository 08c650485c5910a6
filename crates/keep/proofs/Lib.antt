pub mod Ranges
pub mod Pages
pub mod Calls
pub mod Promises
pub mod Fresh
