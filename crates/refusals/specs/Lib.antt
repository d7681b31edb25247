pub mod Outcome
pub mod Plane
pub mod Pixels
pub mod Numbers
