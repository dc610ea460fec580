pub mod Words
pub mod Open
pub mod Payments
pub mod BatchesOfA
pub mod BatchesOfB
pub mod LiquidityAndCycles
pub mod BatchesOfE
mod IntakeCodes
mod Reservations
mod Reasons
mod FirstReasons
mod Morning
mod SoundDays
