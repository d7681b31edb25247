pub mod Row
pub mod Rows
pub mod Pass
pub mod Pieces
