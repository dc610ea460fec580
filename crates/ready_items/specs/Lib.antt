pub mod Shows
pub mod Goes
pub mod Normals
pub mod Found
pub mod Kept
pub mod Noting
pub mod Touching
pub mod Room
