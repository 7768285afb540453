pub mod Writable
pub mod Heads
