pub mod More
pub mod Parents
