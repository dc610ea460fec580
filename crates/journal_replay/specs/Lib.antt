pub mod Same
pub mod Verdicts
pub mod VerdictLaws
