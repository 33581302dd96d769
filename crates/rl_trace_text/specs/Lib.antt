pub mod Narrow
pub mod Reading
pub mod Trees
pub mod RunWords
