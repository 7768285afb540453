pub mod Sized
pub mod Cut
pub mod CutBlocks
pub mod Doubles
