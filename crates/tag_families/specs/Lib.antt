pub mod Codes
pub mod Families
