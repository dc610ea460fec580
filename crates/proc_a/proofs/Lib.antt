pub mod Reduced
pub mod Entries
pub mod StillWanted
