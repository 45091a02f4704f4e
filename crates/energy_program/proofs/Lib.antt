pub mod Meaning
pub mod FaultLaws
pub mod NameLemmas
pub mod Scopes
pub mod MarkLaws
