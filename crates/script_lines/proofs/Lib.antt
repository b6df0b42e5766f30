pub mod DrawingLemmas
pub mod EachLemmas
pub mod Keeping
pub mod Meanings
pub mod PointLemmas
