pub mod Held
pub mod OfMoves
