pub mod Near
pub mod Limits
pub mod Floors
pub mod Forces
pub mod Quotients
pub mod DistanceFloors
pub mod Propositions
pub mod DistanceFilters
