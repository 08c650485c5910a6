pub mod Doubts
mod Looks
