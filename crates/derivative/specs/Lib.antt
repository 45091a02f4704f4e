pub mod Slope
pub mod Exact
pub mod DualNumbers
pub mod Written
pub mod Used
pub mod Derive
