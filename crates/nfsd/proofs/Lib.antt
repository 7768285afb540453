pub mod Obeyed
pub mod OfDevice
pub mod OfImage
