pub mod Touchings
