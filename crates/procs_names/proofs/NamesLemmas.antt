pub mod LinkSteps
pub mod Linked
pub mod Removed
