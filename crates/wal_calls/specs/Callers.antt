pub mod Making
pub mod OneCall
pub mod Steps
