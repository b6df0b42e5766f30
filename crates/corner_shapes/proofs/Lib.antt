pub mod Products
pub mod RadiiLemmas
pub mod OverlapLemmas
pub mod CurveLemmas
pub mod HeldLemmas
