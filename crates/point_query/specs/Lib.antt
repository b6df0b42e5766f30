pub mod ImageMaps
pub mod Outlines
pub mod Chain
pub mod Elements
pub mod Topmost
pub mod Near
pub mod Bound
