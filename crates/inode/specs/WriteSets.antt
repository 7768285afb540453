pub mod WriteSetContents
pub mod Upserted
pub mod Attributes
