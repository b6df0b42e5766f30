pub mod Lists
pub mod Order
pub mod Places
pub mod State
pub mod Paths
