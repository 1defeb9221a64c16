pub mod Queues
pub mod Registry
pub mod Takes
