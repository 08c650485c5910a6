pub mod Seekings
