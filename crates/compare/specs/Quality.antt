pub mod Near
pub mod Ids
pub mod Uses
pub mod Found
pub mod FoundNear
