pub mod Spans
pub mod Ends
