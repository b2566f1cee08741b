pub mod Askings
pub mod Law
pub mod Plain
pub mod Rules
pub mod Runs
pub mod Turns
