pub mod Places
pub mod Unique
