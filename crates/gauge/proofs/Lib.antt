pub mod Gauge
pub mod Table
