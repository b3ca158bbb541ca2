pub mod Joined
pub mod Same
pub mod Properties
