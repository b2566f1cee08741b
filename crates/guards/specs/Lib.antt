pub mod Conjunctions
pub mod Tables
pub mod Conjoined
pub mod Tabled
