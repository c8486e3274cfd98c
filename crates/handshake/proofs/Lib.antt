-- `Unique`, `Demands` and `Cut` are what docs/PROOFS.md cites; the others serve the functions' proofs.
pub mod Order
pub mod Quiet
pub mod Turns
pub mod Talk
pub mod Sides
pub mod Room
pub mod Filled
pub mod Unique
pub mod Demands
pub mod Cut
