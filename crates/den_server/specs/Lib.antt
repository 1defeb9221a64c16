pub mod Causes
pub mod Configured
pub mod Custom
pub mod Default
pub mod Folder
pub mod Opening
pub mod Promises
