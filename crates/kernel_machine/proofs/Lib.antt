pub mod Stale
pub mod Accepted
pub mod ListLemmas
pub mod ColumnLemmas
pub mod TurnLemmas
pub mod LevelLemmas
pub mod PathLemmas
