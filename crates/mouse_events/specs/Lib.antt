pub mod Chain
pub mod Events
pub mod Turns
pub mod State
pub mod Lending
