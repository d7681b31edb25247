pub mod Likeness
pub mod Turned
pub mod Start
