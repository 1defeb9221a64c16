pub mod Fitting
pub mod Found
pub mod Rising
pub mod Taking
pub mod Telling
pub mod Walking
