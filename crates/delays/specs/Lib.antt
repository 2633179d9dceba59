pub mod Exactness
pub mod Numbers
pub mod Pairs
