pub mod Examples
pub mod Puts
pub mod Numbers
pub mod Rooms
pub mod Listed
pub mod Filled
