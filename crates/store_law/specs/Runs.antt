pub mod Tracing
pub mod Ledger
pub mod Past
pub mod Run
