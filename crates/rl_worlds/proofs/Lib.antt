pub mod Shared
pub mod Finding
pub mod UnitTables
