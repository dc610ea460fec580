pub mod Amounts
pub mod Nodes
