pub mod Written
pub mod Beside
pub mod Calm
pub mod Runs
pub mod Frame
pub mod Alone
pub mod Families
pub mod OtherSlot
pub mod Settling
pub mod Filling
pub mod Turning
pub mod Drafts
pub mod Refusals
pub mod Seen
pub mod NextRegion
mod Rows
