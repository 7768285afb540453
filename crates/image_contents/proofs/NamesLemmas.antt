pub mod Apart
pub mod Directory
pub mod Entries
pub mod Lawful
pub mod Once
