pub mod Lists
pub mod Margins
pub mod PairLists
