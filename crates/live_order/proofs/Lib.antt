pub mod Longer
pub mod Runs
pub mod Events
mod SmallDay
