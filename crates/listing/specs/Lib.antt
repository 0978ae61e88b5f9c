pub mod paper
pub mod Lists
