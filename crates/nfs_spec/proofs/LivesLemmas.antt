pub mod Order
pub mod Born
pub mod Reached
pub mod Since
pub mod Handles
