pub mod Due
pub mod Laws
pub mod Refusals
pub mod Rising
pub mod Scheduled
pub mod Words
