pub mod Numbers
pub mod ReplyLaws
pub mod Headers
mod Refusals
