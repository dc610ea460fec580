pub mod Rows
pub mod Machine
pub mod Lines
pub mod Input
