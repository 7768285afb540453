pub mod Queries
pub mod Listings
