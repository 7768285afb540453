pub mod Dots
pub mod Gathered
pub mod Plus
pub mod Tests
