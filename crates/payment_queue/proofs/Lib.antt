mod ChainLemmas
mod HeadLemmas
mod IndexLemmas
mod KeptLemmas
mod LawLemmas
pub mod Members
mod OrderLemmas
pub mod Slots
