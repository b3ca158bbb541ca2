pub mod NearlySharedLemmas
