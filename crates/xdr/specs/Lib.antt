pub mod Items
pub mod Reading
pub mod Codes
pub mod Writing
pub mod Numbers
