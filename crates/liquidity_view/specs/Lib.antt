pub mod Counted
pub mod Figures
pub mod Laws
pub mod Promises
pub mod Requests
pub mod Shares
pub mod Viewed
pub mod Views
