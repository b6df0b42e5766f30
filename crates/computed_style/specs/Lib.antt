pub mod Defaults
pub mod Inheritance
pub mod PointerEvents
pub mod Ranges
