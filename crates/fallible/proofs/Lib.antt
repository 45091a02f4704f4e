pub mod Appends
pub mod FailureLaws
