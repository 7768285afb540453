pub mod Blocks
mod Whole
