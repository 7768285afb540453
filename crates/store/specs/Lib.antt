pub mod Calling
pub mod Driving
pub mod Runs
