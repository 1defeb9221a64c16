pub mod Codes
pub mod Requests
pub mod Hints
pub mod Responses
pub mod ClientErrors
pub mod Laws
