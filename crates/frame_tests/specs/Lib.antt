pub mod Formulas
pub mod Graphs
pub mod Lowering
