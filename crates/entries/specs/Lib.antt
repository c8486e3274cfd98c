pub mod Entries
pub mod Forms
