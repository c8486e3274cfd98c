-- `Unique` is what docs/PROOFS.md cites; the others serve the folds.
pub mod Trees
pub mod Fields
pub mod Measure
pub mod Versions
pub mod Unique
