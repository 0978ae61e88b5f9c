pub mod Text
pub mod Grammar
pub mod Longest
pub mod Names
pub mod Gates
pub mod Meaning
pub mod Faithful
pub mod Circles
