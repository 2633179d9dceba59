pub mod HeapOrder
pub mod Trees
pub mod Meanings
