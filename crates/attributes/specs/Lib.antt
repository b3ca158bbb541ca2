pub mod Numerals
pub mod Values
pub mod Attributes
pub mod Refusals
pub mod Columns
pub mod Back
pub mod Laws
