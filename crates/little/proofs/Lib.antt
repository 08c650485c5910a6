pub mod Digits
pub mod Parts
pub mod Fields
pub mod AllBytes
