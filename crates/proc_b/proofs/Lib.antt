pub mod OfB
pub mod Debtors
pub mod Pushing
pub mod Answered
