pub mod Lists
pub mod SortFacts
mod WorkedDays
