pub mod Reductions
pub mod Settles
