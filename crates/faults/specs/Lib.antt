pub mod Path
pub mod Fault
