pub mod Around
pub mod Bound
pub mod Checked
pub mod Sizes
pub mod Spaces
pub mod Table
pub mod Values
