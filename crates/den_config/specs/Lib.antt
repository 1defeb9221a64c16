pub mod Places
pub mod Values
pub mod Nodes
pub mod Refusals
pub mod Rows
pub mod Sources
