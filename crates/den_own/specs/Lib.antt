pub mod Entries
pub mod Logs
pub mod Machines
pub mod Memory
