pub mod CapturingGraphs
pub mod Graphs
pub mod Inners
