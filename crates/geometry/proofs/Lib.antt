pub mod Bounds
pub mod ByAxis
pub mod Readings
