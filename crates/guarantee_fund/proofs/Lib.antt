pub mod Reduced
pub mod Amounts
pub mod Debits
pub mod Held
