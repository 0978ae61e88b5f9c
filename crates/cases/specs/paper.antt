pub mod Cases
pub mod Drawings
pub mod Answers
pub mod Texts
