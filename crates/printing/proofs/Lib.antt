pub mod Replies
pub mod One
