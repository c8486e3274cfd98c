-- `Laws` serves the functions' proofs; `Unique` says that each contract determines its answer.
pub mod Laws
pub mod Unique
