pub mod Refusals
pub mod Layers
pub mod ProvedLaws
pub mod Fitting
