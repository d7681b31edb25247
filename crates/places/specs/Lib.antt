pub mod Rounding
pub mod Corners
pub mod Place
pub mod Bounds
pub mod Checked
