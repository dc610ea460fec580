pub mod SortOfC
pub mod Cycles
pub mod WantTables
pub mod Held
