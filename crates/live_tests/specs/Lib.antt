pub mod GrowingDays
