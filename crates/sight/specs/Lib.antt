pub mod Sight
pub mod Conflict
