pub mod Answers
pub mod Ends
pub mod Programs
pub mod Reading
