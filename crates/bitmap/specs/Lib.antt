pub mod Clear
pub mod Pieces
pub mod Bits
pub mod NewBlock
pub mod Enough
pub mod Frees
pub mod Inodes
