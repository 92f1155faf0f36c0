pub mod Bitmaps
pub mod Checking
pub mod Every
pub mod Exact
pub mod Folds
pub mod Skipping
pub mod Unique
