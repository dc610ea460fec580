pub mod Setup
pub mod Messages
pub mod Reserves
