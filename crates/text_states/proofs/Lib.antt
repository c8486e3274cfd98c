-- `Rows` is a byte's row; `Ranges` what each state lets through; `Runs` how code goes over a list; `Unique`: each contract has one answer.
pub mod Rows
pub mod Ranges
pub mod Runs
pub mod Unique
