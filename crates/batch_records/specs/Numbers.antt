-- The items of a list by their numbers, which count from 1.
pub use Rattle.cash_amounts.specs.Numbers.{numbered, numbers}
