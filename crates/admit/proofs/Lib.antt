pub mod Admits
pub mod Admissions
