pub mod Asked
mod Stores
