pub mod Numbers
pub mod Ids
pub mod Again
pub mod WorkedConversions
