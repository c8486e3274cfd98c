-- `Unique` says that the contracts leave one answer; `Decimal` serves the functions' proofs.
pub mod Decimal
pub mod Unique
