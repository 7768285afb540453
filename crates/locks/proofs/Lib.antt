pub mod Apart
pub mod IndexLemmas
pub mod NoneLeft
pub mod OneGone
pub mod Walks
