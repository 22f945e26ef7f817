pub mod Rule
pub mod Machine
pub mod Steps
pub mod Answers
pub mod Runs
pub mod Stored
pub mod Bars
pub mod Turn
