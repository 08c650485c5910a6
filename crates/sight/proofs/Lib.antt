pub mod Sights
pub mod Fronts
