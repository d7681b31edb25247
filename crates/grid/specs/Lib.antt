pub mod Sheet
pub mod Quads
pub mod Refused
pub mod Sheetable
