pub mod CaseViews
pub mod Heads
pub mod Parts
pub mod Patterns
pub mod Turns
