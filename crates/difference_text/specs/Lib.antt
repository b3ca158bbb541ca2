pub mod DifferenceJson
pub mod DifferenceLines
pub mod DifferenceParts
pub mod DifferenceText
