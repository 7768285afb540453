pub mod RunsLemmas
pub mod LivesLemmas
