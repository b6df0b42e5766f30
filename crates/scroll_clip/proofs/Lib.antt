pub mod CurveLemmas
pub mod ClipLemmas
pub mod FrameLemmas
