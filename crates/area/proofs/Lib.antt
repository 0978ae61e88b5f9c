pub mod Peaks
pub mod Marking
pub mod Splits
pub mod Ends
pub mod Areas
pub mod Whole
