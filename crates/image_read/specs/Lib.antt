pub mod LoggedImage
pub mod ImageCounts
pub mod Parts
pub mod Files
pub mod Counts
pub mod Laws
