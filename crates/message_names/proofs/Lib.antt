mod TextLemmas
pub mod PlaceLemmas
mod PackedNames
mod LinkLemmas
mod OneName
