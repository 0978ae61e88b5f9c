pub mod Text
pub mod Puts
pub mod Rooms
pub mod Filled
