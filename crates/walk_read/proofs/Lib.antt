-- `Filled`: a judged layout, filled; `Unique`: each public contract has one answer.
pub mod Filled
pub mod Unique
