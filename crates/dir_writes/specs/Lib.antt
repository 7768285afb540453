pub mod Clearing
pub mod SlotWrites
pub mod NameInsertion
pub mod Growing
