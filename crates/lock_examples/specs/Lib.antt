pub mod Account
pub mod Gate
pub mod Line
pub mod Parts
pub mod Pool
