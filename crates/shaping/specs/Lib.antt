pub mod Terms
pub mod Numbers
pub mod Fields
pub mod Runs
pub mod Loading
pub mod Turns
