pub mod Moving
pub mod Patterns
pub mod Shapes
