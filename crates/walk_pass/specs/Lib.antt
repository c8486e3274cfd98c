pub mod Passing
pub mod Skip
