pub mod Corners
pub mod Grids
pub mod Indexes
pub mod Solids
pub mod Worked
