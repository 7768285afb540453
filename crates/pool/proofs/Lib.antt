pub mod Places
pub mod SeatedSteps
pub mod Calls
