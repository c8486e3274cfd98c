-- `Unique` is what docs/PROOFS.md cites; `Laws` serves the functions' proofs, here and in the crates above.
pub mod Laws
pub mod Unique
