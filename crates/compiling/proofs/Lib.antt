pub mod Scans
pub mod Drawables
pub mod Readied
pub mod TablesWritten
pub mod Outcomes
pub mod One
