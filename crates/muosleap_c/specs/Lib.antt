pub mod Paintings
pub mod Picture
pub mod Reports
pub mod Structs
pub mod Tags
