pub mod BodyStopping
pub mod CaseStopping
pub mod Catching
pub mod Skipping
pub mod Stopping
pub mod TargetStopping
