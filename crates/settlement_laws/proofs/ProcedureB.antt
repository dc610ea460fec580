pub mod SettledWhole
pub mod CoveredWhole
pub mod ClosedMovesNothing
pub mod WholeIsCovered
pub mod WholeMoves
pub mod WholeOrNothing
pub mod TechnicalIsEmpty
