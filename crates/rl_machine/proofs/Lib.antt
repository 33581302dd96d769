mod ActExamples
pub mod Cleaned
mod ExampleGraphs
mod Examples
pub mod Following
pub mod Found
pub mod KeptRuns
mod LoopExamples
pub mod Points
pub mod Pruned
mod Reading
pub mod Silence
pub mod StaysClosed
mod StuckExamples
mod Tables
