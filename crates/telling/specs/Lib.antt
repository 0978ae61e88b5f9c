pub mod paper
