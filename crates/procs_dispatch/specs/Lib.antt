pub mod Kinds
pub mod Leads
