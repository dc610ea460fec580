pub mod FieldLemmas
pub mod LineLemmas
pub mod ReadingLemmas
pub mod SameTexts
pub mod StoredLemmas
pub mod TextLemmas
