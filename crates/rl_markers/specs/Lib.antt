pub mod Uses
pub mod Parts
pub mod Lists
pub mod Heads
pub mod NodeSymbols
pub mod Named
pub mod Tables
