pub mod FlatLemmas
pub mod PathLemmas
pub mod TableLemmas
pub mod TestLemmas
