pub mod Reports
pub mod Draws
