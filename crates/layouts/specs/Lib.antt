-- Document 01 in antt, in its order. docs/PROOFS.md says what must be believed besides, and what of it need not.
pub mod Primitive
pub mod Shape
pub mod Pieces
pub mod Record
pub mod Judge
pub mod Operations
pub mod Calls
pub mod Stderr
pub mod Handshake
pub mod Writers
-- document 02: W-201
pub mod CallWriter
pub mod Grammar
pub mod Refusals
pub mod Examples
-- what the demands speak of
pub mod Soft
pub mod Demands
-- document 02: W-212
pub mod Cut
-- what a refusal of the code means
pub mod Refusal
