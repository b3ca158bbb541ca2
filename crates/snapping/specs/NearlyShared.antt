pub mod Uses
pub mod Shared
pub mod Connected
pub mod Joined
pub mod Rest
pub mod Moved
