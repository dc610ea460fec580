pub mod MovesInTurn
