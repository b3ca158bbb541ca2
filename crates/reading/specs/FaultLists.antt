pub mod Found
pub mod Ascending
