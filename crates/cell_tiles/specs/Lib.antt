pub mod Cells
pub mod Cover
pub mod Near
pub mod Tiles
pub mod Walks
