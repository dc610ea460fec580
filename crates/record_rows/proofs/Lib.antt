pub mod FieldFacts
pub mod KeptFacts
pub mod PlaceFacts
pub mod CsvRecords
pub mod InputFacts
pub mod LineFacts
