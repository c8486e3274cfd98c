-- What the theorems of `proofs/` speak of. No contract cites it.
pub mod CallTrips
pub mod CallOurs
