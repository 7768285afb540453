pub mod Bits
pub mod OnGrid
