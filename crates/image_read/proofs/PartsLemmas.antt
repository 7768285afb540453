pub mod Bits
pub mod OverlayThen
pub mod Pushed
