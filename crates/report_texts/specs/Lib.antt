pub mod Parts
pub mod ReportText
pub mod ReportParts
pub mod QualityText
pub mod QualityParts
