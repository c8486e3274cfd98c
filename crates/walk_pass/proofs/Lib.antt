pub mod Passing
pub mod Moving
pub mod Skipping
pub mod Unique
