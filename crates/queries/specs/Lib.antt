pub mod Arms
pub mod Tests
