pub mod Slots
pub mod Vacant
pub mod SearchCursor
pub mod Asked
pub mod Search
