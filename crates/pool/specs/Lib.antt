pub mod CallInFlight
pub mod Working
pub mod Answers
pub mod Seated
pub mod Stepping
pub mod Locking
