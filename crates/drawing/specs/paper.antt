pub mod Limits
pub mod Rules
pub mod Bytes
pub mod Forms
pub mod Refusals
pub mod Table
pub mod Fields
pub mod Reading
