pub mod Refuse
pub mod Range
pub mod Does
