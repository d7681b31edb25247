pub mod Repeated
pub mod Listing
pub mod Steps
