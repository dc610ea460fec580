pub mod ListLemmas
pub mod NodeLemmas
pub mod SearchLemmas
pub mod GrowLemmas
pub mod NewLemmas
pub mod SetLemmas
pub mod PlaceLemmas
pub mod ForestLemmas
