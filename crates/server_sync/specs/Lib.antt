pub mod Keys
pub mod Moments
pub mod SeatAwaitingLog
