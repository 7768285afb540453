pub mod Crashing
pub mod Events
pub mod Files
pub mod Lines
pub mod Replies
pub mod Segments
pub mod Simulated
