pub mod CallersLemmas
pub mod SeatsLemmas
