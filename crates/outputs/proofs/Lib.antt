pub mod BuiltTextLemmas
pub mod InfoTextLemmas
