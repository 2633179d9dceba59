pub mod Sizes
pub mod Weights
