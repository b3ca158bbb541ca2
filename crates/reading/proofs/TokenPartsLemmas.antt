pub mod Listing
pub mod Members
pub mod Pairs
