pub mod Bodies
pub mod Inner
