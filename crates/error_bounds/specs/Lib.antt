pub mod Ordered
pub mod Approximations
pub mod Rules
pub mod Approximate
pub mod Meanings
