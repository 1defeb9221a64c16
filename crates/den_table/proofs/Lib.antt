pub mod Entries
pub mod KeyedBy
pub mod Sorted
pub mod Tables
