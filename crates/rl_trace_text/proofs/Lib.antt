mod Worded
pub mod Heights
pub mod NoValues
pub mod Nodes
pub mod ReadBack
