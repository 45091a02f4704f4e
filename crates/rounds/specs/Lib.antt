pub mod Tiles
pub mod Interleaving
pub mod ExactSums
pub mod Workers
pub mod Rule
pub mod Totals
pub mod Events
