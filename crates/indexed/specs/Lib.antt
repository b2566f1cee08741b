pub mod Index
pub mod Numbers
pub mod Tables
pub mod Stored
