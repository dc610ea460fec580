mod ArrivalFacts
pub mod LongerFacts
mod KeptRow
pub mod RowFacts
mod ChainFacts
mod PageFacts
mod Renews
mod Walks
pub mod HintFacts
mod NotingFacts
pub mod Noted
mod FirstFacts
pub mod CycleOrder
pub mod Room
pub mod Longer
