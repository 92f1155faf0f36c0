pub mod Boxes
pub mod Counts
pub mod Laws
pub mod Layers
