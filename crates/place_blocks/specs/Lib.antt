pub mod Lanes
pub mod Blocks
