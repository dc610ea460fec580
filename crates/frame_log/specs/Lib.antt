pub mod Reads
pub mod Finding
pub mod Looking
pub mod Standing
pub mod Sureness
pub mod Opens
