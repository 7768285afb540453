pub mod BlockLemmas
pub mod Failures
pub mod MemoryLemmas
pub mod CrashLemmas
pub mod OverlapLemmas
