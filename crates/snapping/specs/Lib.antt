pub mod NearlyShared
