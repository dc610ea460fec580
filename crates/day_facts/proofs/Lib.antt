pub mod Absent
pub mod AgainLines
pub mod AimLines
pub mod Lists
pub mod OwnLines
pub mod ToldParts
pub mod ToldLines
pub mod Lookups
pub mod Standing
pub mod ListedParts
pub mod LeftParts
pub mod LeftLines
pub mod FirstFlags
pub mod ItemCounts
pub mod CycleLines
pub mod PhaseFacts
pub mod OpeningLines
pub mod UntakenLines
pub mod RowLemmas
pub mod RuledRows
pub mod Stops
pub mod TableFacts
pub mod Earlier
pub mod Room
pub mod Longer
mod Arriving
mod LongerFacts
mod NewMessage
mod RowedLemmas
mod StageLines
