pub mod Numbers
pub mod Pieces
pub mod Stands
pub mod Whole
pub mod Put
