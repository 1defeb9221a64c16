pub mod ById
pub mod Cache
pub mod Keys
pub mod Members
pub mod Nodes
pub mod Pauses
pub mod WorkedMembers
