pub mod Code
pub mod Machine
pub mod Paths
pub mod Listing
pub mod InstructionLines
pub mod Tables
