pub mod Guards
pub mod Literals
pub mod Paths
