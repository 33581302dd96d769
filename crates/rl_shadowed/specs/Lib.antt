pub mod Shadowed
