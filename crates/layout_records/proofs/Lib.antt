pub mod Ones
pub mod OneBit
pub mod OnGrid
pub mod Words
