pub mod Measures
pub mod Rects
pub mod Ellipses
pub mod Boxes
pub mod Shapes
pub mod Held
