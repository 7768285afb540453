pub mod Done
pub mod Faults
pub mod Lines
pub mod Left
pub mod ImageScans
pub mod Scripts
