pub mod Rulings
pub mod Wanted
pub mod Deep
pub mod Answers
