pub mod Arcs
pub mod Axes
pub mod Placed
pub mod Places
pub mod Seen
pub mod Tallies
pub mod Transforms
