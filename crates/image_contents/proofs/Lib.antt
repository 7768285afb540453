pub mod BodiesLemmas
pub mod NamesLemmas
pub mod FoundLemmas
pub mod LinesLemmas
