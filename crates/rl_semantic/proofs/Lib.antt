pub mod Filling
pub mod Importing
mod Kept
