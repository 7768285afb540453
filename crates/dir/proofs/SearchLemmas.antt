pub mod Stays
pub mod Same
