pub mod paper
pub mod Sweeps
pub mod Gathering
pub mod Walking
pub mod Promises
pub mod Searching
