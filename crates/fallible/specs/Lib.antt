pub mod Failures
pub mod Out
