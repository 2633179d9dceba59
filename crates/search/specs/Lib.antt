pub mod Networks
pub mod Forests
pub mod Searches
pub mod Progress
pub mod Beginnings
pub mod Meanings
