pub mod Ample
pub mod Morning
pub mod Settling
pub mod Shape
pub mod Totals
pub mod TrialSetup
pub mod TrialMessages
pub mod TrialAmple
pub mod TrialIntake
pub mod TrialSound
pub mod TrialIsAmple
mod WorkedTrials
pub mod Summing
pub mod SummaryLaw
pub mod Making
mod Pushing
pub mod SummaryTexts
