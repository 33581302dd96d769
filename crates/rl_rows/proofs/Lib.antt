pub mod Labelled
pub mod SameNode
pub mod SameParts
pub mod Cleared
pub mod Found
pub mod Clean
