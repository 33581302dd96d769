pub mod Finishing
pub mod Forms
pub mod GivenItems
pub mod Markup
pub mod Methods
pub mod Pairing
pub mod Shaped
