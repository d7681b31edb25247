pub mod Bits
pub mod Turn
pub mod Differing
pub mod Tables
