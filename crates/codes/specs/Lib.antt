pub mod Stderr
