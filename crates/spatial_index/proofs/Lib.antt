pub mod TimesLemmas
pub mod LevelLemmas
pub mod PlanLemmas
pub mod LawLemmas
pub mod GridLemmas
pub mod ChangeLemmas
