pub mod CodeLaws
pub mod Runs
pub mod InstructionLaws
pub mod LineLaws
pub mod ListingLaws
pub mod PathLaws
pub mod EveryPath
pub mod SomeResult
