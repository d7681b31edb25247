pub mod Reading
pub mod Bytes
pub mod Rows
pub mod Report
pub mod Steps
