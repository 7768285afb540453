pub mod Faults
pub mod Lines
pub mod Messages
pub mod Numbers
pub mod Places
pub mod Reading
pub mod Script
pub mod Texts
