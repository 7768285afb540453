pub mod WritesLemmas
pub mod CreatesLemmas
