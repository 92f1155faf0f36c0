pub mod Axes
pub mod Cuboids
pub mod Frames
pub mod Refusals
pub mod Shifts
pub mod Words
