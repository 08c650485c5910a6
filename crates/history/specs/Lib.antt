pub mod World
pub mod Spoiled
pub mod Asked
pub mod Theorems
pub mod Observers
pub mod Since
