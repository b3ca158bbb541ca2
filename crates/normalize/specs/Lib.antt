pub mod Pieces
pub mod Lists
pub mod Repeats
pub mod ArcLists
