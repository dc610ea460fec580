pub mod NextFacts
pub mod NumberFacts
pub mod FlatPasses
pub mod Lined
pub mod Stretches
pub mod Settling
pub mod Sizes
pub mod AnyReady
pub mod CandidateFacts
pub mod Kept
pub mod PhaseKept
pub mod Readiness
pub mod Passing
pub mod Alike
pub mod Booked
pub mod Objected
pub mod Items
pub mod Frame
pub mod Waiting
pub mod Queues
pub mod Staying
mod SmallNumbers
mod SmallDay
