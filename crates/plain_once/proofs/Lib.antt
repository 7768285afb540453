pub mod Attended
pub mod Spelled
pub mod SessionLemmas
