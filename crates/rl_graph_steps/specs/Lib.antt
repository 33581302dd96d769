pub mod Effects
pub mod Graphs
pub mod Notes
pub mod Runs
pub mod States
