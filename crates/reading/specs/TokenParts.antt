pub mod Members
pub mod Text
