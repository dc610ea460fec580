pub mod FindingFacts
pub mod StandingFacts
pub mod TakingFacts
