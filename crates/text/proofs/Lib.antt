pub mod Join
pub mod Decimal
