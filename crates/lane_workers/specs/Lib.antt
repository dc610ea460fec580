pub mod Senders
pub mod Stints
pub mod Seen
