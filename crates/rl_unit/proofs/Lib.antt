pub mod Marked
pub mod Answering
pub mod Known
pub mod Outcomes
pub mod Room
pub mod Small
pub mod Results
