pub mod Frees
pub mod Emptied
pub mod Linked
