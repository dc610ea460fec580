pub mod Closing
