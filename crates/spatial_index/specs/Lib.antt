pub mod Cells
pub mod Contents
pub mod Levels
pub mod Moves
