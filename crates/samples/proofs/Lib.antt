pub mod LaneTests
pub mod Laws
