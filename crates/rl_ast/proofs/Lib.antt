pub mod MarkedFunctions
pub mod Reading
pub mod Units
