pub mod Blocks
pub mod Cow
pub mod Shared
