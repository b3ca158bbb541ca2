pub mod Fits
pub mod Numerals
pub mod Positions
pub mod Snapped
pub mod Table
