pub mod Plainly
pub mod Refusing
pub mod Saying
