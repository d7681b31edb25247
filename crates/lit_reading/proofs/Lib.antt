pub mod Said
pub mod Zipped
