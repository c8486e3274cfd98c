-- `Unique`, `Demands`, `Cut` and `Refused` are what docs/PROOFS.md cites; the others serve the functions' proofs.
pub mod Read
pub mod Rows
pub mod Unique
pub mod Demands
pub mod Cut
pub mod Refused
