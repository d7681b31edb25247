pub mod Samples
pub mod Order
pub mod Answers
pub mod Depends
pub mod Starts
