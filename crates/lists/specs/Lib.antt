pub mod Tab
pub mod Sum
pub mod Each
pub mod Front
