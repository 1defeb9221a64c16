pub mod Few
pub mod Numbers
pub mod Read
pub mod Worked
