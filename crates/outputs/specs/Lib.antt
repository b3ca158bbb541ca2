pub mod BuiltText
pub mod InfoText
