pub mod Appended
pub mod Candidates
pub mod Dedicated
pub mod DueFacts
pub mod FirstReady
pub mod Carrying
pub mod HeldFacts
pub mod Holding
pub mod IntakeTables
pub mod Intakes
pub mod JudgingFacts
pub mod Making
mod NextLines
pub mod OpeningFacts
pub mod PaymentFacts
pub mod ReadyFacts
pub mod Refusals
pub mod Skipping
pub mod SweepFacts
pub mod Targets
mod MemberRuns
pub mod FormFacts
pub mod RoomFacts
pub mod LiveRuns
