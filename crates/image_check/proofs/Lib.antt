pub mod Counted
pub mod Files
pub mod Homes
pub mod Judged
pub mod Marked
pub mod Overlaid
pub mod Refusing
pub mod SlotBytes
