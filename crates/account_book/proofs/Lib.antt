pub mod Searches
mod Entered
mod Hashed
pub mod Numbers
pub mod SoundLemmas
pub mod Answered
