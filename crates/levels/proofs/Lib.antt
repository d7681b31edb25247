pub mod Loops
pub mod Cases
pub mod Places
pub mod Extremes
pub mod Reorder
pub mod Order
pub mod Clear
pub mod Quarter
