pub mod Tables
pub mod Rows
pub mod Roles
