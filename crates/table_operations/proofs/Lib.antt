pub mod Search
pub mod Shapes
pub mod Itself
pub mod Unique
