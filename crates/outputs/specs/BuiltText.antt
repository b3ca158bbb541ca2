pub mod Sources
pub mod Maps
pub mod Laws
