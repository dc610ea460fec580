pub mod Reduced
pub mod Entries
pub mod Reasons
pub mod Numbering
