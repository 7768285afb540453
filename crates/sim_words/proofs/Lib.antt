pub mod Cut
pub mod Digits
pub mod Messages
pub mod OneByOne
