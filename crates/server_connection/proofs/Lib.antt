pub mod ArePreserved
