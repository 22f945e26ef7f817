pub mod Words
pub mod Events
pub mod Kept
pub mod Runs
pub mod Mutexes
