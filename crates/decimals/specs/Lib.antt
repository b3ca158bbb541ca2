pub mod Topology
