pub mod Errors
pub mod Jobs
pub mod Lines
pub mod Plain
