pub mod Clean
pub mod Clear
pub mod Finds
pub mod Itself
pub mod Plans
