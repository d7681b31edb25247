pub mod Turned
pub mod Tested
pub mod Apart
pub mod Reading
