pub mod Bodies
pub mod Names
pub mod Found
pub mod Lines
