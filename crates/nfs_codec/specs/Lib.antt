pub mod Procedures
pub mod Items
pub mod Arguments
pub mod Statuses
