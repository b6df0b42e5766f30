pub mod PressLemmas
pub mod ClickLemmas
pub mod HolderLemmas
