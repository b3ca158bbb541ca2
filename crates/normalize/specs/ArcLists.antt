pub mod Summaries
pub mod Segments
pub mod Labels
pub mod Lists
