pub mod Numbers
pub mod Stores
pub mod Sealed
pub mod Former
