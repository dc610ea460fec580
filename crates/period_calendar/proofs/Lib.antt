pub mod CalendarLemmas
pub mod DateLemmas
pub mod DigitLemmas
pub mod NextDayLemmas
pub mod TimeLemmas
