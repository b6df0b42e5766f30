pub mod Curves
pub mod Clips
