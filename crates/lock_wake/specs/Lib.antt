pub mod OwedWakes
pub mod Watches
mod EventSeals
pub mod EventCounts
pub mod EventPlays
pub mod EventCalls
