pub mod AtWork
pub mod FormattedRun
pub mod Going
pub mod Running
