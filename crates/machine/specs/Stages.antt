pub mod Intake
pub mod Phases
pub mod Pending
pub mod Blockers
