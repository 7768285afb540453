pub mod Filling
pub mod Written
pub mod Adding
pub mod CleanCounts
pub mod Inner
