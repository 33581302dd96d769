pub mod Steady
pub mod Nodes
pub mod Items
pub mod Patterns
pub mod Repeats
pub mod Whole
