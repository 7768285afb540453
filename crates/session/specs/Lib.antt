pub mod Standing
pub mod Filing
pub mod Replying
pub mod Serving
pub mod Streaming
pub mod Reading
pub mod Writing
