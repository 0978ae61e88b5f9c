pub mod Compiles
