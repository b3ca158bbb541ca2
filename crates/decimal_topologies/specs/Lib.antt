pub mod Stitching
pub mod Geometries
pub mod Features
pub mod Layers
pub mod Used
pub mod Roots
pub mod Laws
