mod Naming
mod Splitting
