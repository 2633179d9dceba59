pub mod Contents
pub mod SlotKeys
pub mod Meanings
pub mod Sorts
