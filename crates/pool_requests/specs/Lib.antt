pub mod Jobs
pub mod Answers
