pub mod Linted
pub mod Traced
