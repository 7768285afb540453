pub mod Stream
pub mod Received
pub mod Spelled
pub mod Immediate
pub mod Sent
pub mod Bearing
