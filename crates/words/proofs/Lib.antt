pub mod Digits
pub mod Searched
pub mod Walked
