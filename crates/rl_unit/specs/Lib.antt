pub mod Answers
pub mod Functions
pub mod Known
pub mod Lines
pub mod Outcomes
pub mod Rules
