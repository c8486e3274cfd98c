-- `Rfc3629` is what text is, in the RFC's words. `Prefix` computes how far a list of octets is text; `proofs/` shows that the two agree.
pub mod Rfc3629
pub mod Prefix
