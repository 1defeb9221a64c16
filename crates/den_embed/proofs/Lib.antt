pub mod Ending
pub mod Opened
pub mod Results
