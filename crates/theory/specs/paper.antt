pub mod Net
pub mod Values
pub mod Lists
pub mod Walk
pub mod Cover
pub mod Evidence
pub mod Lookup
pub mod Sound
