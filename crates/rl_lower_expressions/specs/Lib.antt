pub mod Groups
pub mod Keys
pub mod Links
pub mod Members
