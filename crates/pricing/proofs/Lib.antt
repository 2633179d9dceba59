pub mod Explores
pub mod Mends
pub mod Lowers
pub mod Steps
pub mod Loosened
