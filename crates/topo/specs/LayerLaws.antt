pub mod Less
pub mod Cuts
pub mod CutLayers
pub mod CutLaws
pub mod Leaving
pub mod LeftLists
