pub mod Callees
pub mod Functions
pub mod Placed
pub mod Targeted
