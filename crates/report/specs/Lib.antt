pub mod Failures
pub mod Outputs
pub mod Plain
