pub mod Content
pub mod RowNumbers
pub mod Slots
