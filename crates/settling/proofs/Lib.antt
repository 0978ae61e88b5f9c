pub mod SheetsMade
pub mod Standing
pub mod Tables
