pub mod Takings
pub mod Judged
