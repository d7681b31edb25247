pub mod Turns
pub mod Any
pub mod Numbers
