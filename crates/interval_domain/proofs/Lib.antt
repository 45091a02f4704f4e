pub mod OutcomeLemmas
pub mod FloorLemmas
pub mod RangeLemmas
pub mod MonotoneLemmas
pub mod QuotientLemmas
pub mod OperationLemmas
pub mod MemberLemmas
