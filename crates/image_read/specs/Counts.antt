pub mod Adds
pub mod Linked
