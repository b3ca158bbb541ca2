pub mod Collapsing
pub mod Sharing
pub mod Making
pub mod Trails
pub mod Counted
pub mod RunningOn
