pub mod Connected
pub mod Clusters
pub mod Walk
pub mod Center
