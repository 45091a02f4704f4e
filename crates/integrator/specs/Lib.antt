pub mod Displacement
pub mod Forces
pub mod Frames
pub mod Systems
pub mod States
pub mod Starts
pub mod StartViews
