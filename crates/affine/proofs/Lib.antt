pub mod Bits
pub mod FloorLemmas
pub mod HullLemmas
pub mod MapLemmas
pub mod PointLemmas
