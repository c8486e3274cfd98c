-- What numbers at the start of a part read as, and what writing one does, for the contracts.
pub mod Number
pub mod Stored
