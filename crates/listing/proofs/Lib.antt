pub mod Listed
pub mod Tables
pub mod One
