pub mod Faults
pub mod Names
pub mod Tree
pub mod Value
pub mod Programs
pub mod Variables
pub mod Uses
