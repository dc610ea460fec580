pub mod Logs
pub mod Texts
pub mod Keepers
pub mod Stories
pub mod StoryProps
pub mod Kept
pub mod New
