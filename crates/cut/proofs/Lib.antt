pub mod Asking
pub mod Inspecting
