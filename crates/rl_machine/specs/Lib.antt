pub mod Acts
pub mod Closed
pub mod Conditions
pub mod Ends
pub mod Machine
pub mod Prunes
pub mod Silence
pub mod Traces
