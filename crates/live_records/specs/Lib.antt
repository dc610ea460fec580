pub mod WholeRecords
pub mod Heard
pub mod Fates
pub mod Rounds
pub mod Kept
pub mod OpenRecord
pub mod Ears
pub mod Setups
