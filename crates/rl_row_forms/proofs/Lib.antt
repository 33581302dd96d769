pub mod Shaped
pub mod Smaller
pub mod Wordy
pub mod Numerals
pub mod Assigned
pub mod Leaving
pub mod Nones
