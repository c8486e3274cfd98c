-- `Unique` says that the contract leaves one answer; `Sets` serves the functions' proofs.
pub mod Sets
pub mod Unique
