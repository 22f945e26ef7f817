pub mod WordLemmas
pub mod CallSums
pub mod Steps
mod Runs
mod Mutexes
