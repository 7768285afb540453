pub mod Endian
pub mod Never
pub mod Coded
pub mod Refusing
pub mod Lawful
pub mod Links
