pub mod Stacks
pub mod Standing
pub mod Batches
pub mod LanePaths
pub mod Listed
