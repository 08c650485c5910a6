pub mod Whole
pub mod Abreast
