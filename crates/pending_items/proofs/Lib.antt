pub mod NumberFacts
pub mod PartFacts
mod SoundFacts
pub mod HeadFacts
mod RenewFacts
mod LineFacts
mod ConcernFacts
mod KeptFacts
mod EndFacts
mod CycleFacts
mod NoteFacts
mod Grown
pub mod Room
pub mod Longer
