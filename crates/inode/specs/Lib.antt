pub mod Indexed
pub mod Snap
pub mod Read
pub mod Asked
pub mod Over
pub mod Shown
pub mod WriteSets
