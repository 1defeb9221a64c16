pub mod Calls
pub mod Fitting
pub mod Asked
pub mod Values
