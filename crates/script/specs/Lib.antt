pub mod Plain
pub mod Scripts
pub mod Tallies
pub mod Words
