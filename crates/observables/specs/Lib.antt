pub mod Bounds
pub mod Sums
pub mod Observables
pub mod Columns
pub mod Limbs
pub mod Products
pub mod Ratios
