pub mod Writes
pub mod Creates
