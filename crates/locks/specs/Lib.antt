pub mod Taking
pub mod Index
pub mod Looks
pub mod Walks
