pub mod Tickets
pub mod LineLaws
pub mod FairState
pub mod FairSteps
pub mod FairLaws
pub mod FairWaking
pub mod Notifying
pub mod Sleeping
