pub mod Wants
pub mod Reasons
