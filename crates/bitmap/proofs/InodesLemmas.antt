pub mod Without
pub mod Cleared
pub mod Removed
pub mod Made
pub mod Linked
pub mod OwnedBlocks
pub mod InAnyOrder
