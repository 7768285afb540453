pub mod Moves
pub mod Placing
pub mod Renames
pub mod Slots
pub mod Tells
