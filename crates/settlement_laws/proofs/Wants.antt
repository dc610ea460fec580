pub mod ReasonsMatchLines
pub mod Answering
pub mod OnlyWant
pub mod ReadyWants
pub mod UnfinishedWants
pub mod Foremost
pub mod BlockerIsTheForemost
pub mod PlacesDiffer
