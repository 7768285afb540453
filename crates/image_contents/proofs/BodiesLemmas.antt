pub mod AllMet
pub mod BelowBytes
pub mod Finding
pub mod FileScans
pub mod SlotsBeforeDouble
pub mod NoDouble
