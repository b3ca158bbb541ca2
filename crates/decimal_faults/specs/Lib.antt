pub mod Parts
pub mod Positions
pub mod Outlines
pub mod Geometries
pub mod Shapes
pub mod Collections
pub mod Maps
pub mod Laws
