pub mod Sharing
pub mod Tables
pub mod Components
pub mod Clustering
