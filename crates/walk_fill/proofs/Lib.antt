-- `There` and `Unique` are what docs/PROOFS.md cites; the others serve the functions' proofs.
pub mod There
pub mod Pieces
pub mod Folding
pub mod Unique
