pub mod Parts
pub mod Steps
pub mod Names
pub mod Columns
pub mod Words
pub mod Written
pub mod Identifiers
