pub mod AskedFor
pub mod StepsOf
pub mod TellsOf
pub mod FewAsked
pub mod FewClaimed
pub mod RefusedThere
pub mod ChangesOf
mod Finishes
mod NoPlan
pub mod KnownNames
