pub mod Wants
pub mod Lines
pub mod FirstReady
pub mod Reasons
pub mod Accounts
