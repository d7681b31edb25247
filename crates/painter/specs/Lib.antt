pub mod Picture
pub mod Tag
pub mod Part
pub mod Corners
pub mod Printable
