pub mod Headers
pub mod Groups
pub mod Credentials
pub mod Records
pub mod Cutting
pub mod Refused
