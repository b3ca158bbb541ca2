pub mod Kept
pub mod Ascending
pub mod Wholes
pub mod Order
