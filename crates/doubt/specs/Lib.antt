pub mod Doubt
