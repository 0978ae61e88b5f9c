pub mod paper
pub mod Luts
pub mod Lines
pub mod WholeSheets
pub mod Sheets
