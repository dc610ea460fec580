pub mod StatedStops
pub mod Speaking
pub mod RunsAlike
pub mod Keepers
pub mod RunsSame
