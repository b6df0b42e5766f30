pub mod Division
pub mod Fraction
pub mod Rect
