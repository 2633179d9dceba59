pub mod Repairs
pub mod Starts
pub mod Texts
