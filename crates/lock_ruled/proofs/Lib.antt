pub mod Views
pub mod Wakes
pub mod Keeps
pub mod PermitKeeps
