pub mod Setup
pub mod Directory
pub mod Filed
pub mod Rooms
pub mod Transfers
