pub mod Heads
pub mod Memory
