pub mod FaultPlacesLemmas
pub mod FaultyFeaturesLemmas
pub mod FirstReportsLemmas
pub mod LineColumnsLemmas
pub mod PlacesLemmas
pub mod ReportsLemmas
