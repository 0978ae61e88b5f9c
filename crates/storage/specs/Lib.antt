pub mod Entries
pub mod Marks
pub mod Lists
pub mod Columns
pub mod Roles
pub mod Drawings
