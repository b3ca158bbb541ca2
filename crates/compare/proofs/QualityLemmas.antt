pub mod Nearness
pub mod Walking
pub mod Counted
pub mod Grouping
pub mod Had
