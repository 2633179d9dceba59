pub mod Contents
pub mod Checks
pub mod Layout
pub mod Files
pub mod Numbering
pub mod Opened
