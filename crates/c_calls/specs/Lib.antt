pub mod Ends
pub mod Why
pub mod Options
pub mod Borrowed
