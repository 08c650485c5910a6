pub mod Stationed
