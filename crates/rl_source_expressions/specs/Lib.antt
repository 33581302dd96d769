pub mod Callees
pub mod Operations
pub mod Places
pub mod Targets
pub mod Tests
