pub mod Importing
pub mod Stepping
pub mod Declaring
