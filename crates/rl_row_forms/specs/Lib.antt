pub mod Aboves
pub mod Labels
pub mod Quasis
pub mod Shaped
pub mod Statements
pub mod Targets
pub mod Wordy
