pub mod Chains
pub mod Frames
pub mod Links
pub mod Meanings
pub mod Parts
