-- `Unique` holds what docs/PROOFS.md cites; the others serve the functions' proofs, here and in the crates above.
pub mod Fields
pub mod Numbers
pub mod Found
pub mod Nodes
pub mod Strings
pub mod Unique
