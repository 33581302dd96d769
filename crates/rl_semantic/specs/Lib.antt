pub mod Rules
pub mod Items
pub mod ImportNodes
pub mod Imports
pub mod Functions
pub mod Keyed
pub mod Buckets
