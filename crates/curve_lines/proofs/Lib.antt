pub mod NumberLaws
pub mod LineLaws
pub mod SummaryLaws
pub mod BodyLaws
