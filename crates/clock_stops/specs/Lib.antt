pub mod Stops
pub mod Entered
pub mod Kept
pub mod Props
