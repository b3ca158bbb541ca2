pub mod DifferenceCounts
pub mod DifferenceTextLemmas
pub mod DifferenceWriting
