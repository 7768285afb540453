pub mod FoundHere
pub mod KindsAgree
