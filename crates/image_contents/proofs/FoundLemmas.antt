pub mod Below
pub mod Counting
pub mod Facts
pub mod Linked
pub mod Whole
pub mod Sums
