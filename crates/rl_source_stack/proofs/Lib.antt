pub mod Asks
pub mod Goings
pub mod Stacks
pub mod WrittenScenes
