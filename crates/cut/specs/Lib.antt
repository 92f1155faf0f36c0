pub mod Asks
pub mod Inspections
