pub mod Checks
pub mod Laws
pub mod Lines
pub mod Lists
pub mod Skips
pub mod Worked
