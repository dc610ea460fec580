pub mod History
pub mod Balances
pub mod Facts
