mod Bounding
mod Counting
pub mod Framing
pub mod Moving
mod Obeying
