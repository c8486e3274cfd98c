-- `Messages` holds what the codes mean by the definitions of `layouts`, `Unique` that each contract determines its answer.
pub mod Messages
pub mod Unique
