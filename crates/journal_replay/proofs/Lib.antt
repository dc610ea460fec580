pub mod Comparing
pub mod Following
pub mod LinesFit
pub mod VerdictLaws
