pub mod Catching
mod Counting
mod Loading
pub mod Locking
mod Needing
mod Openings
mod Placing
mod Rounding
pub mod Taking
mod Telling
