-- `Laws` is a number read at the start of a part, `Stores` one written there; `Unique` that each contract determines its answer; `Word` a number put together by
-- its bytes.
pub mod Laws
pub mod Stores
pub mod Unique
pub mod Word
