pub mod Writes
pub mod Waits
pub mod Swaps
pub mod Sifts
pub mod Changes
pub mod Numbered
