pub mod Taken
pub mod Says
