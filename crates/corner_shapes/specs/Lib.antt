pub mod Radii
pub mod Overlap
pub mod Factor
pub mod Curve
pub mod Held
