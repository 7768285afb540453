pub mod TreeOf
pub mod Whole
