pub mod Crashes
pub mod Cut
pub mod Lasting
pub mod Memory
pub mod Runs
pub mod Stored
