pub mod Again
pub mod Expiring
pub mod Giving
pub mod Rising
