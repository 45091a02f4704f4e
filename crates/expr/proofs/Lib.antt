pub mod Counts
pub mod Results
pub mod Chain
pub mod Levels
pub mod Sound
pub mod Complete
pub mod Lexing
pub mod TextLemmas
pub mod Parsing
mod Behind
mod Checked
mod Resolving
mod Programs
