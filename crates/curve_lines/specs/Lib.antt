pub mod Numbers
pub mod Rows
pub mod Summaries
pub mod SoFar
pub mod Bodies
