pub mod Span
pub mod Lines
