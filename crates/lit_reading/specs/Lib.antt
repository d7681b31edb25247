pub mod Said
pub mod Sampleable
