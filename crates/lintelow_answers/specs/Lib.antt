pub mod Answers
pub mod Block
pub mod Skips
