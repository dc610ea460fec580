pub mod Calendar
pub mod Closing
pub mod Dates
pub mod Digits
pub mod MomentTexts
pub mod Easter
pub mod NextDay
pub mod Times
