-- `Unique`: each public contract has one answer. The others serve the functions' proofs, here and in `protocol`.
pub mod Brief
pub mod OneText
pub mod Shapes
pub mod Unique
