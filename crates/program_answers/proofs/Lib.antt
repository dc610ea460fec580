pub mod DayAnswers
mod Digits
pub mod Handing
pub mod Promising
pub mod Reading
pub mod Saying
pub mod Statuses
pub mod Listening
