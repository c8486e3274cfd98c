-- `Unique` says that the contracts leave one answer; the others serve the functions' proofs.
pub mod Laws
pub mod Framed
pub mod Unique
