pub mod LeavingOut
pub mod PatternForms
pub mod Shaping
