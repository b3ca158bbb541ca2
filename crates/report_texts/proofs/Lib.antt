pub mod Reports
pub mod Qualities
