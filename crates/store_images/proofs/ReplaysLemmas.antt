pub mod Put
pub mod AtHome
pub mod Reading
pub mod Begun
pub mod Entries
