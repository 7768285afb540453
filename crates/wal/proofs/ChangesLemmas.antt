pub mod IndexLemmas
pub mod AbsorbingChanges
