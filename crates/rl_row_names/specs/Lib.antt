pub mod Bodiless
pub mod Named
pub mod Orders
pub mod Parameters
pub mod Spines
