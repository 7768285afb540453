pub mod Attending
pub mod Words
pub mod Session
