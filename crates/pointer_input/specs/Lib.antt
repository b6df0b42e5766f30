pub mod State
pub mod Capture
pub mod Presses
pub mod Buttons
pub mod Inputs
pub mod Lending
pub mod Clicks
pub mod Runs
