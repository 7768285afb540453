pub mod ModelLemmas
pub mod ProceduresLemmas
pub mod LivesLemmas
