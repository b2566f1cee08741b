pub mod Changed
pub mod Heaped
pub mod Listed
pub mod Lookups
pub mod Outcomes
pub mod Pruning
pub mod Touching
