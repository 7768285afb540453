pub mod Indexes
pub mod Named
pub mod Plain
