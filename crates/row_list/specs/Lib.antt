pub mod Rows
pub mod Cut
