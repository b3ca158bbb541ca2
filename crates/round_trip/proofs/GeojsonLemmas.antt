pub mod TextIs
pub mod Places
pub mod Shapes
pub mod Features
pub mod Readable
pub mod Collections
