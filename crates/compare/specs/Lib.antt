pub mod Quality
pub mod Differences
pub mod Placed
pub mod Keyed
pub mod Indexed
pub mod Compared
pub mod Pairing
