pub mod Lines
pub mod Word
pub mod Readbits
