pub mod Room
pub mod Sizes
pub mod Repeated
pub mod Counts
pub mod Again
pub mod Listing
