pub mod Border
pub mod Pairs
