pub mod Codes
pub mod Likeness
pub mod BitCode
pub mod Quad
pub mod Quads
