pub mod FrameFacts
pub mod FileFacts
