pub mod Counts
pub mod FewFields
pub mod Fitting
pub mod Functions
pub mod Shaped
pub mod Viewing
