pub mod Values
pub mod Good
