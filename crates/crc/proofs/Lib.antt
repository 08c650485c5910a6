pub mod XorLaws
pub mod CrcLaws
pub mod Registers
pub mod Vectors
