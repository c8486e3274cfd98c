pub mod Numbered
pub mod Packed
pub mod Table
pub mod Claims
