pub mod Added
pub mod BlankFiles
pub mod Made
pub mod MadeDirectories
pub mod MadeLinks
pub mod Refused
pub mod Resized
pub mod Stops
