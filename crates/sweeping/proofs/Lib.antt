pub mod Treats
pub mod Dues
pub mod Calls
pub mod Promises
