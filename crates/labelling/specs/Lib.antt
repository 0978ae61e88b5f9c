pub mod Labelling
pub mod Evidence
pub mod Probing
pub mod Storing
pub mod Gates
pub mod Turning
