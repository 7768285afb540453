pub mod Iterated
pub mod Tally
