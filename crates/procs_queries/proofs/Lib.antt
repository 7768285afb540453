pub mod QueriesLemmas
pub mod ListingsLemmas
