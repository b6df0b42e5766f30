pub mod InheritanceLemmas
