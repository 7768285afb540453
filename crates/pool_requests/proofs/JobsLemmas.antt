pub mod Judgements
pub mod Cuts
