-- `Versions` holds what versions mean by the definitions of `layouts`, `Unique` that each contract determines its answer.
pub mod Versions
pub mod Unique
