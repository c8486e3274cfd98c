-- `Unique` and `Cut` hold what docs/PROOFS.md cites; the others serve the functions' proofs.
pub mod Numbers
pub mod Strings
pub mod Sets
pub mod Frames
pub mod Unique
pub mod Cut
