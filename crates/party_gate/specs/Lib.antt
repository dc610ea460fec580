pub mod Ends
pub mod Holding
pub mod Lines
pub mod Out
pub mod Passing
pub mod Promises
