pub mod CommandLine
pub mod Commands
pub mod Explanations
pub mod Syntax
pub mod Views
