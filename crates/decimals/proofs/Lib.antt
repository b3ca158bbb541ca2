pub mod TopologyLemmas
