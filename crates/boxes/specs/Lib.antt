pub mod Covers
pub mod Cuts
pub mod Laws
pub mod Measures
pub mod Orders
pub mod Records
pub mod Stretches
pub mod Worked
