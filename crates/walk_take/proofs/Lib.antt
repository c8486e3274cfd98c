-- `Unique` is what docs/PROOFS.md cites; the others serve the functions' proofs, here and in `walk_judge`.
pub mod Pieces
pub mod Numbers
pub mod Strings
pub mod Frames
pub mod Unique
