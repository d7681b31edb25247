pub mod Same
pub mod Good
pub mod Placed
pub mod LowFirst
pub mod Report
pub mod Rows
pub mod Options
