pub mod Order
pub mod Keyed
pub mod Scans
pub mod Offers
pub mod InOrder
