pub mod Branch
pub mod Inner
