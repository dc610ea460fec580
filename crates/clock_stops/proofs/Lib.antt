mod EnteredFacts
pub mod LongerFacts
mod NextFacts
mod NotedFacts
pub mod StopFacts
