pub mod Rows
pub mod Framed
