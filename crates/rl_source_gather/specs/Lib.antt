pub mod Gathered
pub mod Items
pub mod Keys
pub mod Pairs
pub mod Tags
