pub mod Acted
pub mod SetSteps
pub mod SoundHeads
pub mod Touched
pub mod WriteSteps
