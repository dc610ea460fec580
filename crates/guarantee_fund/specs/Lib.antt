pub mod Reasons
pub mod Wants
pub mod Covering
