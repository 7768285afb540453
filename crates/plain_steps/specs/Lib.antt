pub mod Computed
pub mod Slots
pub mod Numbered
