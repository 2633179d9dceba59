pub mod Fronts
pub mod Chosen
pub mod Checks
