pub mod PathsWritten
pub mod LutsWritten
pub mod LinesWritten
pub mod SheetsWritten
pub mod DrawingsMapped
pub mod Mapped
