-- `Numbers` is about the numbers of entries in bytes, `Places` where a string lies; `Unique`: each public contract has one answer, and in either form it is by the same numbers.
pub mod Numbers
pub mod Places
pub mod Unique
