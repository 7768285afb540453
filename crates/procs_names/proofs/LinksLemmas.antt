pub mod Doing
pub mod Entered
pub mod Needs
pub mod Roomy
pub mod Shaped
pub mod SoundShapes
pub mod WithinSpan
