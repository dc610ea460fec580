pub mod AllTexts
pub mod Called
pub mod Entered
pub mod ListedTexts
pub mod Objections
pub mod RevokedHere
pub mod ToldInTurn
pub mod RejectedEntries
pub mod Saying
pub mod StatusLemmas
pub mod Texts
pub mod ToldTexts
pub mod Unmoved
pub mod Untouched
mod WorkedStatuses
