pub mod Listed
pub mod Index
pub mod AbsorbedIn
pub mod View
