pub mod Series
pub mod Unique
