pub mod Gathers
pub mod Lists
pub mod Parts
