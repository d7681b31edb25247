pub mod Turned
pub mod Numbers
