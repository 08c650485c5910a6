pub mod Headers
pub mod Counts
pub mod Anew
pub mod Touches
pub mod Stored
