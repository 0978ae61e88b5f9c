pub mod Stores
pub mod Sweeps
pub mod Orders
pub mod ConeRows
pub mod Marking
pub mod Backing
pub mod Covered
pub mod Answers
