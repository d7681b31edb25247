pub mod Word
pub mod Sources
pub mod Gathered
