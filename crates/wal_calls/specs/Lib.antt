pub mod Callers
pub mod Seats
