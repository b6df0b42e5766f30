pub mod DivisionLemmas
pub mod FractionLemmas
pub mod RectLemmas
