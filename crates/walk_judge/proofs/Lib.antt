pub mod Notes
pub mod Feeding
pub mod Judging
pub mod Answers
pub mod Cut
pub mod Unique
