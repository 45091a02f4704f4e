pub mod Slices
pub mod Grids
pub mod Tables
pub mod SoFar
pub mod Potentials
pub mod Progress
pub mod Writing
