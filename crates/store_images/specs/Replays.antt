pub mod Putting
pub mod AtHome
pub mod Replayed
