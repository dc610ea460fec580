pub mod LiveGrows
pub mod Passing
pub mod Cuts
pub mod SoundFront
pub mod Causal
pub mod KeepsUp
pub mod AtStops
