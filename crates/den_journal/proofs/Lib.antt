pub mod Drafting
pub mod Emptying
pub mod Full
pub mod Joins
pub mod Moving
pub mod OneWord
pub mod Opens
pub mod Seen
