pub mod TablesStored
pub mod StageOne
pub mod OneMapping
