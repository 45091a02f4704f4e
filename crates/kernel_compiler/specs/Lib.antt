pub mod Code
pub mod Sizes
pub mod Compiled
