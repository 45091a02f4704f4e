pub mod ListLaws
pub mod MarginLaws
pub mod BoundsLemmas
pub mod ListingLemmas
pub mod PreparedLemmas
