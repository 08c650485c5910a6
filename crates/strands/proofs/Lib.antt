pub mod Apart
pub mod Gone
pub mod Rows
pub mod Runs
pub mod Shapes
pub mod Strands
