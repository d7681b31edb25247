pub mod Order
pub mod Passed
