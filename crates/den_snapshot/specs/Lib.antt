pub mod Laws
pub mod Snapshots
pub mod Spelled
pub mod Words
