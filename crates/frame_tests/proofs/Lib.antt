pub mod FormulaGraphs
pub mod FormulaSizes
pub mod Steps
