pub mod Circles
pub mod Corners
pub mod TestedLemmas
