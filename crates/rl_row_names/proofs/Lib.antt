pub mod ThisNames
pub mod Named
pub mod Asking
pub mod Ordered
pub mod Spines
pub mod SameBodiless
