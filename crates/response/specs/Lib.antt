pub mod Response
pub mod Steps
