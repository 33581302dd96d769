pub mod Begun
pub mod Endings
pub mod Params
pub mod Rooms
pub mod Scenes
pub mod Sound
