pub mod Line
pub mod Place
pub mod Sheetable
pub mod Tags
pub mod Quads
