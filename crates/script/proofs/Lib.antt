pub mod Far
pub mod Fronts
pub mod Making
pub mod Plainly
pub mod Running
pub mod Tallying
