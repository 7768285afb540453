pub mod Acting
