pub mod Model
pub mod Procedures
pub mod Lives
