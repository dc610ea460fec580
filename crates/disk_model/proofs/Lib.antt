pub mod CutFacts
mod PastFacts
pub mod RunFacts
mod SmallDisks
pub mod WriteFacts
