pub mod Worlds
pub mod Units
