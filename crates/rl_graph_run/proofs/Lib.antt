mod Kept
mod Tables
mod Without
