-- `Writable`: which rows can be written. `CallTrips`: written, then read. `CallOurs`: read, then written. They hold what docs/PROOFS.md cites; the others serve them.
pub mod Writable
pub mod CallFields
pub mod CallTrips
pub mod CallNumbers
pub mod CallAgain
pub mod CallOurs
