pub mod Laws
pub mod Steps
pub mod Gathering
pub mod Unique
