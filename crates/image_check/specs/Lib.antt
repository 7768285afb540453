pub mod Checked
pub mod Refused
pub mod Searched
