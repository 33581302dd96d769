pub mod Stems
pub mod Shadowing
