pub mod Trial
pub mod Summary
pub mod TrialLaws
