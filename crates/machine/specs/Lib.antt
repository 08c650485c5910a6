pub mod Table
pub mod Lines
pub mod Machine
pub mod Runs
pub mod Observers
