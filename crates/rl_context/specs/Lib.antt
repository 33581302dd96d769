pub mod Roles
pub mod Even
pub mod Sites
pub mod Index
pub mod Wrapped
pub mod Context
