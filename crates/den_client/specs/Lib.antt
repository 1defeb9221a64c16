pub mod Answers
pub mod Asking
pub mod Calling
pub mod Laws
pub mod Mapped
pub mod Requests
