pub mod Going
pub mod Block
pub mod Unique
pub mod Demands
