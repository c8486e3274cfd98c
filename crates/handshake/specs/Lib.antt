pub mod Turns
pub mod Greeted
