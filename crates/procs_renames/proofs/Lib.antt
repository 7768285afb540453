pub mod Agreeing
pub mod Doings
pub mod Movable
pub mod Parents
pub mod Placed
pub mod RenameSteps
pub mod RefusalTests
pub mod Spaces
