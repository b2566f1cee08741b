pub mod Changes
pub mod Heaps
pub mod Listed
pub mod Pruned
pub mod Prunings
pub mod Tables
