pub mod Multiples
pub mod Places
pub mod Judged
pub mod Heard
pub mod Pairs
