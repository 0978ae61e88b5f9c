pub mod Right
pub mod Mappers
pub mod Same
pub mod Printed
