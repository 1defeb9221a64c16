pub mod Generator
pub mod Report
pub mod Serving
