mod Seals
pub mod Seats
pub mod Legal
pub mod Plays
pub mod Drives
pub mod Calls
pub mod Own
