pub mod CodeSlopeLaws
pub mod EnergyLaws
pub mod InputLaws
pub mod PotentialLaws
pub mod VerdictLaws
pub mod EnergyKernelLaws
pub mod ReportLaws
