pub mod Problems
pub mod Scans
pub mod Texts
