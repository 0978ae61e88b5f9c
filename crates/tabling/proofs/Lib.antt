pub mod Lengths
pub mod Standing
pub mod RoundTrip
pub mod Judged
pub mod Fields
pub mod Joins
