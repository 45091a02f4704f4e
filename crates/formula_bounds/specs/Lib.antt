pub mod Entries
pub mod Written
pub mod Nodes
pub mod Walks
