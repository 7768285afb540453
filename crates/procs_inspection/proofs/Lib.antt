pub mod Seen
pub mod NoTree
pub mod Files
