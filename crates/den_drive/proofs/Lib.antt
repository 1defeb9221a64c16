pub mod Driven
pub mod Empty
pub mod Last
pub mod Made
pub mod Planned
pub mod Served
pub mod WorkedDrives
