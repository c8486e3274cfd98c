pub mod Protocol
pub mod Bytes
