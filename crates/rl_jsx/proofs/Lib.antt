mod Examples
pub mod Decoding
pub mod Joined
pub mod LineEnds
pub mod Marked
pub mod Numbers
