pub mod Numbers
pub mod Rows
pub mod Puts
pub mod Judged
pub mod Unique
