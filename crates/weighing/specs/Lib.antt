pub mod Laid
pub mod PassThree
pub mod PassFour
