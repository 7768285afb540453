pub mod Counted
pub mod Files
pub mod OfGood
pub mod OfTable
pub mod Printed
pub mod Rising
