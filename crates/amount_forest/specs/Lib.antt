pub mod Forests
pub mod Lists
pub mod Nodes
pub mod Searches
pub mod Places
