pub mod Anew
pub mod Fitting
pub mod HeldLogs
pub mod Lookups
pub mod Regions
pub mod Rising
pub mod Sizes
