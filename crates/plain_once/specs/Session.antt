pub mod Answering
pub mod Counts
pub mod Records
pub mod Serving
