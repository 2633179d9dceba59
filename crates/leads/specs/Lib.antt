pub mod Priced
pub mod Tellings
pub mod Counts
pub mod Weights
pub mod Labels
