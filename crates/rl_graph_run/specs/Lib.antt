pub mod Steps
pub mod Symbols
