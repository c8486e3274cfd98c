-- Laws and uniqueness for the writers above.
pub mod Laws
pub mod Numbers
pub mod Unique
