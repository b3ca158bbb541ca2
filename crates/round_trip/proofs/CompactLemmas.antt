pub mod GoodParts
pub mod Texts
pub mod Numbers
pub mod Lists
pub mod Members
pub mod Info
pub mod Documents
