pub mod Cases
pub mod Declarators
pub mod Patterns
pub mod Tries
