mod Behind
mod Replaced
pub mod Numbered
mod Repeating
mod Turning
mod Kept
pub mod Collapsing
pub mod ArcListsLemmas
