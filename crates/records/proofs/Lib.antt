pub mod Slots
pub mod Entries
pub mod Bodies
pub mod Fits
pub mod Stores
