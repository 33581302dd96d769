pub mod Frames
pub mod Meanings
pub mod Parts
pub mod Rounds
pub mod SwitchCases
pub mod SwitchMeanings
pub mod SwitchParts
