pub mod Walking
pub mod Places
pub mod Captured
pub mod Examples
