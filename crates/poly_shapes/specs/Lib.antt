pub mod Segments
pub mod Outline
pub mod Extent
pub mod Fill
pub mod Stroke
pub mod Rectangle
