pub mod Places
pub mod Parts
pub mod Names
pub mod Spells
pub mod Frees
pub mod Putting
