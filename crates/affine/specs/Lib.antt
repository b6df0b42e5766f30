pub mod Function
pub mod Gcd
pub mod Hull
pub mod Map
pub mod Point
