-- `Laws` is about the block's numbers and bytes, `Guard` about a call that writes one, `Skips` about what a skipper says; `Unique`: each public contract has one
-- answer.
pub mod Laws
pub mod Guard
pub mod Skips
pub mod Unique
