pub mod AmountText
pub mod AmountGrammar
pub mod Kinds
pub mod Names
pub mod Numbers
pub mod SoundSetup
pub mod Stages
pub mod Tests
