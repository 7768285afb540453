pub mod Names
pub mod SlotsOf
