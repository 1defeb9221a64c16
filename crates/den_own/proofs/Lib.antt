pub mod Adding
pub mod Maps
pub mod Snapshots
pub mod Unwritten
