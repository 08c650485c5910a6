pub mod Bygone
pub mod Undones
pub mod Outcomes
pub mod Kept
