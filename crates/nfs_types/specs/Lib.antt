pub mod CallFacts
pub mod Fits
pub mod Handle
pub mod Verifier
