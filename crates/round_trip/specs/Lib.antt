pub mod Compact
pub mod Geojson
pub mod Values
pub mod Laws
