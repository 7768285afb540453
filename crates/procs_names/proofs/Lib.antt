pub mod LinksLemmas
pub mod NamesLemmas
