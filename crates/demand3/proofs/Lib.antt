pub mod Said
pub mod Sheet
