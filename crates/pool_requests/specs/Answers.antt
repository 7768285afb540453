pub mod Evident
pub mod Written
pub mod MayGet
