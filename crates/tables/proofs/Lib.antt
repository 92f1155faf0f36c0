pub mod Listed
pub mod Placing
pub mod Writing
